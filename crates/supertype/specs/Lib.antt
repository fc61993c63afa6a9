-- How the lowest of the common ancestors are found; what is asked stands in the crates view and tables.
pub mod Sources
pub mod Stripped
pub mod Near
pub mod ByPlace
