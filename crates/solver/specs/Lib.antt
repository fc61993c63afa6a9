-- What a solve asks of its tables, and what it leaves.
pub mod Solver
