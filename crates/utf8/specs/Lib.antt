-- Well-formed UTF-8: the definitions, the rows of the table, the laws, the seams between bytes, worked examples.
pub mod Utf8
pub mod Rows
pub mod Laws
pub mod Seams
pub mod Examples
