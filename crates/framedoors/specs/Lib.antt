-- SLICES = FRAMES: what rows give as columns and as lines is the same, refusal and answers.
pub mod Agree
