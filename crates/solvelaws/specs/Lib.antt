-- Laws of a solve over slices that no proof of code cites.
pub mod Plainly
pub mod RowNumbers
pub mod Gives
pub mod Refusals
pub mod OneLayer
