-- That the contract allows one outcome.
pub mod Unique
