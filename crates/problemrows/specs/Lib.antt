-- What the row functions of a problem leave, and that it is the problem's own row.
pub mod ProblemRows
pub mod Laws
pub mod Kept
