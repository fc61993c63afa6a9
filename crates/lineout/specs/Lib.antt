-- What is printed: numbers, words and lines as bytes; then the laws that the code meets.
pub mod Printed
pub mod Laws
