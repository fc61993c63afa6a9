-- What the contracts of this crate cite, and the laws that other crates may cite.
pub mod Rows
pub mod Keys
pub mod Marks
pub mod Laws
pub mod Examples
