-- A hex frame, and the program that reads them: the state, one frame, what is printed, the whole as a function from bytes to bytes; lines of a
-- text, and examples.
pub mod Frames
pub mod Typeline
pub mod Texts
pub mod Examples
