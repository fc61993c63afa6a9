-- What needs the contracts as the check reads them.
pub mod Unique
