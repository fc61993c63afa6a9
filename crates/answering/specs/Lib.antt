-- What the contracts cite, and one law for each case that the code meets.
pub mod Answering
pub mod Steps
pub mod FromFinal
pub mod Cut
pub mod Once
