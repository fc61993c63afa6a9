-- What the queries on a class table mean, and what is proved of them.
pub mod View
pub mod Examples
pub mod Grow
pub mod Reach
pub mod Ancestors
pub mod Relations
pub mod Casts
pub mod Distances
pub mod Below
pub mod Nearest
pub mod Supertype
pub mod Loops
pub mod Walk
pub mod Search
pub mod Frontier
pub mod Lows
pub mod Pick
