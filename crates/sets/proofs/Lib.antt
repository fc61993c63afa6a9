-- What the proofs share, what a set's struct tells (for other crates too), and that each contract allows one result.
pub mod Good
pub mod Loops
pub mod Unique
