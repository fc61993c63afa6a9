-- The theorem that each contract allows one outcome.
pub mod Unique
