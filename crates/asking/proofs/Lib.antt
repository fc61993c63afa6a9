-- The theorem that the contract allows one outcome.
pub mod Unique
