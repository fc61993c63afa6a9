-- That the contracts allow one outcome each.
pub mod Unique
