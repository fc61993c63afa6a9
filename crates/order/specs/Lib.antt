-- The order of numbers and of lists of numbers, membership, and a few laws of truth values.
pub mod Compare
pub mod Lists
pub mod Truth
pub mod Tests
pub mod Laws
