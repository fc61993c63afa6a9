-- Rows and columns of a problem, and what a problem that is taken means.
pub mod Problems
pub mod Held
pub mod Plain
pub mod Exact
pub mod Stored
pub mod Own
pub mod Kept
pub mod Examples
