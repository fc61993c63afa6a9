-- The frame of a solve, 0a, over the state in four slices: where the rows of a problem stand in one slice, what the frame comes to, and that this is
-- what the definition says.
pub mod Parts
pub mod SolveFrame
pub mod Leaving
