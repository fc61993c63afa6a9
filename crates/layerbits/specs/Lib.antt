-- What the contracts of this crate cite, and the laws that other crates may cite.
pub mod LayerBits
pub mod Laws
pub mod ByPlace
