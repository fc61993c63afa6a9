-- Laws of the definitions in specs/.
pub mod Agrees
pub mod Canonical
pub mod Domain
pub mod LayerViews
pub mod OneLayer
pub mod Refused
pub mod Shown
pub mod Taken
