-- What the contracts of this crate cite, and the laws of it.
pub mod TableCheck
pub mod Inside
pub mod Steps
