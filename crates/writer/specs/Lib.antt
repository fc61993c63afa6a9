-- How types and methods are written, and the steps of that.
pub mod Print
pub mod Store
pub mod Steps
