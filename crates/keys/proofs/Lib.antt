-- What the proofs of the functions lean on, and that each promise allows one result.
pub mod Rest
pub mod Unique
