pub mod Epoch
pub mod Count
pub mod Angle
pub mod Widths
pub mod Examples
