-- What is proved of the contracts beside the functions' own proofs.
pub mod Back
pub mod Unique
