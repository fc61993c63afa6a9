-- When a slice of keys is ready to be asked, and what a prepared one is.
pub mod Prepared
pub mod ByPlace
