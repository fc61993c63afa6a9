-- Laws of the definitions in specs/.
pub mod Examples
pub mod Families
pub mod Layers
