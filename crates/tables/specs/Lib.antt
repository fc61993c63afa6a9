-- The lengths of the class tables, and the view that they give.
pub mod Table
pub mod TableExamples
