-- Between a table of bounds and the functions of resolving.
pub mod FromTable
pub mod Parts
