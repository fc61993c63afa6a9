-- What a table of several layers means, and the law that its slices say the same.
pub mod LayerRows
pub mod Taken
pub mod LayerViews
pub mod LayerRefusals
pub mod Agrees
pub mod Shown
pub mod Domain
