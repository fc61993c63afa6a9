-- Lemmas for the proofs of this crate, and the theorem that the contract allows one outcome.
mod Steps
pub mod Unique
