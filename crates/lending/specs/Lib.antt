-- Slices that a function is lent, as contracts have them.
pub mod Lending
