-- The frames of rows, 01 to 09, and of a layer that is opened, 0e: what each leaves in its own slices and in the numbers.
pub mod RowFrames
