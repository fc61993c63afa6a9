-- The invariant of the search, and what is proved of the generated contracts.
pub mod Bracket
pub mod Unique
