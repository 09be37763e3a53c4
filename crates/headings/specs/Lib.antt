pub mod Lines
pub mod Headers
pub mod Copies
pub mod Elements
