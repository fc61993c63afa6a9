-- What a run asks, and its loop.
pub mod Propagating
