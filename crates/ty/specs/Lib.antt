-- The definitions and laws of types and their words.
pub mod Types
pub mod Words
pub mod Digits
pub mod Shape
pub mod Distinct
pub mod Round
pub mod Order
pub mod Answers
pub mod Steps
pub mod Examples
