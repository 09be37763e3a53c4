pub mod Stamps
pub mod Degrees
pub mod Columns
