-- That the contracts allow one result each.
pub mod Unique
