-- The problem that columns give in lent slices, and the runs that it is made by.
pub mod ProblemColumns
pub mod Runs
pub mod Laws
pub mod Steps
