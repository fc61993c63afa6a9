-- From a state that lines lead to, what the frames of rows and of questions leave in slices and numbers is what the definition of a frame says.
pub mod Own
pub mod Kinds
pub mod Classes
pub mod Again
