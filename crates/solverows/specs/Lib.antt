-- What a solve over a table that was built comes to, and the laws between its steps.
pub mod SolveRows
pub mod Laws
