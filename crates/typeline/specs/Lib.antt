-- What the program holds from line to line.
pub mod Held
