-- The head of a frame: KIND, LENGTH, ORDER, and that the rest of the chain is the message's own.
pub mod Heads
