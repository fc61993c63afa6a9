-- What a solve leaves in lent slices, and the laws between the slices of a problem, the run and that.
pub mod SolveResult
pub mod Laws
pub mod Examples
pub mod Choice
