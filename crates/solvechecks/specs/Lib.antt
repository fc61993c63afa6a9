-- What the checks of a solve outside its rows come to, and a law for each way through them.
pub mod SolveChecks
pub mod Steps
