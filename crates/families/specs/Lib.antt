-- Tables whose searches need not all read the same view.
pub mod Families
pub mod Examples
