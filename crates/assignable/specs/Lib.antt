-- What the code goes by: primitives by their order, and one law for each case that the code meets.
pub mod Primitives
pub mod Steps
