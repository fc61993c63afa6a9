-- JVMS 4.3: the grammar of descriptors, and that the readers accept exactly what it derives.
pub mod Jvms
pub mod Names
pub mod Meaning
pub mod Prefix
pub mod Derive
pub mod Ends
pub mod Listing
pub mod Signatures
pub mod JvmsTheorem
pub mod Same
pub mod Errors
pub mod Refused
pub mod ReadExamples
pub mod JvmsExamples
