-- A chain of checks.
pub mod Checks
