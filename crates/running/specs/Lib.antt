-- A run over the slices: what its start, a pop and a turn leave, and when it is over.
pub mod Running
pub mod Laws
pub mod ByPlace
