-- Hex lines: what a line's bytes are, and the numbers in them; then the laws that the code meets.
pub mod Hex
pub mod Laws
