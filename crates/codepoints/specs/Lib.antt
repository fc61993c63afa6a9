-- UTF-8 by code points: the encoding of numbers as bytes, and that the well-formed lists are exactly what it gives.
pub mod CodePoints
pub mod Sequences
