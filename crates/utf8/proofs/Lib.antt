-- Laws that the proofs of the functions share, and the uniqueness of what their contracts allow.
pub mod Part
pub mod Blocks
pub mod Unique
