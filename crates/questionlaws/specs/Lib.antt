-- Laws of the questions that no proof of code cites.
pub mod Accepted
pub mod Loops
pub mod Refusals
pub mod Examples
pub mod FirstRow
pub mod Checked
pub mod CheckExamples
pub mod OneLayer
