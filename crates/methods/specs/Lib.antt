-- How a method descriptor is read, what is handed back, and what is proved of that.
pub mod Method
pub mod Answers
pub mod Strict
pub mod Params
pub mod Filled
