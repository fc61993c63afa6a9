-- What holds of hex frames: a refused one changes nothing, every state that lines lead to is sound and is that of the rows that were accepted;
-- rows as messages and as lines.
pub mod Reached
pub mod Numbers
pub mod Messages
pub mod Written
pub mod Traced
