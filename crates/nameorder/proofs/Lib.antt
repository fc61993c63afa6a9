-- The comparison past equal bytes, and what is proved of the generated contracts.
pub mod Block
pub mod Unique
