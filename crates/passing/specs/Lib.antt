-- The passes of a turn as code meets them, and that it is the same which rule sends, and which array that is too deep.
pub mod Passes
pub mod Steps
pub mod Alike
