-- The frames of questions, 0b to 0d: what each is refused with, and says.
pub mod AskFrames
