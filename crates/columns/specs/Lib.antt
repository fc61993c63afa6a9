-- What the contracts of this crate cite, and the laws that other crates may cite.
pub mod Columns
pub mod Laws
pub mod Names
pub mod Fold
pub mod Given
pub mod GivenLaws
pub mod Gathered
pub mod Examples
pub mod ByPlace
