-- Laws for the loops, the lists and the verdicts; and the theorems that each contract allows one outcome.
mod Steps
pub mod Unique
