-- The state of hex frames in slices and numbers: what they hold, and what a frame leaves in them.
pub mod FrameState
