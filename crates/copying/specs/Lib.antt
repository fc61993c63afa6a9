-- What is copied out of a table, and that it is the types which the solve's definition reads off it.
pub mod Copies
pub mod Steps
pub mod Types
pub mod Own
