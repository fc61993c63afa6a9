-- The definitions and laws of names: places, checks, lookup.
pub mod Names
pub mod Table
pub mod Lookup
pub mod Examples
