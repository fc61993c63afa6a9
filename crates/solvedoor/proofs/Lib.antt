-- What stands beside the proofs of this crate's functions.
pub mod Unique
