-- What the promises of the public functions determine.
pub mod Unique
