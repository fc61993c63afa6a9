-- What the contracts of this crate cite, and the laws that other crates may cite.
pub mod Sorted
pub mod Laws
pub mod Places
pub mod Parts
