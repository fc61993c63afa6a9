-- What is reached from many classes: in one walk, and as rows, one set a class; and how far each class is from one of them.
pub mod Spread
pub mod Rows
pub mod Closure
pub mod ByPlace
