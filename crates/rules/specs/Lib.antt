-- The rules of a turn over slices, and that they are those of the solve's definition.
pub mod Rules
pub mod Steps
pub mod Turn
