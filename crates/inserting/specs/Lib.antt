-- What an insertion does to the slices, and that it does to what they show what the solve's definition does.
pub mod Store
pub mod Laws
pub mod Steps
