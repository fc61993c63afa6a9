-- One line against the state: what a step asks and leaves, how a part of the rows is put back, and that each kind's frame is the step of its message.
pub mod Stepping
pub mod PutBack
pub mod Asks
pub mod Needs
pub mod Kinds
pub mod Lines
