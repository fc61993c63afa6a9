-- What the contracts cite, and one law for each case that the code meets.
pub mod Bounds
pub mod Laws
pub mod Hints
pub mod ByPlace
