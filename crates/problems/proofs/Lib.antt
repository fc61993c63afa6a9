-- Laws of the definitions in specs/.
pub mod Exact
pub mod Examples
pub mod Held
pub mod Kept
pub mod Own
pub mod Plain
pub mod Rooms
pub mod Stored
