-- What the parser asks at its offset.
pub mod Offsets
