-- Texts as bytes.
pub mod Text
