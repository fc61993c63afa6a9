-- What the code of joins goes by.
pub mod Joins
pub mod Lists
pub mod Cases
pub mod Fold
