-- What the contract cites, and its step.
pub mod Columns
