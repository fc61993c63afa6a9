-- Laws of the definitions in specs/.
pub mod Agrees
pub mod Answers
pub mod Bare
pub mod Canonical
pub mod Domain
pub mod Paths
pub mod Refused
pub mod SameViews
pub mod Taken
