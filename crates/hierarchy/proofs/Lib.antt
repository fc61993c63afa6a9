-- What the proofs of this crate's functions share.
pub mod Steps
pub mod Walks
pub mod Answers
pub mod Unique
