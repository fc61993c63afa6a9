-- What is proved of the generated contracts.
pub mod Unique
mod Ranges
