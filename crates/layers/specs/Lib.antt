-- What the contracts of this crate cite, and the laws that other crates may cite.
pub mod Layers
pub mod Laws
pub mod Stacks
pub mod StackLaws
pub mod Examples
