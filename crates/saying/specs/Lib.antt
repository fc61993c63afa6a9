-- One line read and answered: what is printed of what a frame says, and that this is what the program's definition prints.
pub mod Saying
pub mod Printing
