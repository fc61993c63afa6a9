-- What the contracts of this crate cite, and the laws of it.
pub mod Questions
pub mod Inside
pub mod Laws
