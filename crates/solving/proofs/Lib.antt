-- Laws of the definitions in specs/.
pub mod Chains
pub mod Closed
pub mod Examples
pub mod Inserts
pub mod LinkKeys
pub mod OrderedLaws
pub mod Orders
pub mod Queue
pub mod Resolve
pub mod Runs
pub mod Solve
pub mod Steps
pub mod TableKeys
pub mod Tidy
pub mod Ways
