-- What the code goes by: types that may be missing, one law for each case that the code meets, and bounds asked at once.
pub mod Maybe
pub mod Steps
pub mod Groups
pub mod ByPlace
