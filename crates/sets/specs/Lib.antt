-- The definitions that the contracts cite, and the laws that proofs cite, here and in other crates.
pub mod Sets
pub mod Bits
pub mod Laws
