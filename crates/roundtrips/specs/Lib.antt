-- What is read and written comes back: round trips, and tables lent in part.
pub mod ToWord
pub mod Derived
pub mod Readable
pub mod Round
pub mod Held
pub mod Lent
pub mod Examples
