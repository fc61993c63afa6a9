-- What the contracts of this crate cite, and the laws that other crates may cite.
pub mod LayerColumns
pub mod Laws
pub mod AsBits
pub mod Fold
