-- What a turn asks of a state, and that the rest changes nothing.
pub mod Asking
pub mod Steps
pub mod Laws
pub mod ByPlace
