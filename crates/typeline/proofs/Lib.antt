-- Laws that several functions of the program use.
pub mod Failed
