-- What a solve over slices is, what its inner functions promise each other, and the laws between them.
pub mod SolveDoor
pub mod Inside
pub mod Laws
