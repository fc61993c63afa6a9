-- Ranks and keys: their definitions, their laws, and examples.
pub mod Rank
pub mod Numbers
pub mod Members
pub mod Laws
pub mod Parts
pub mod Examples
