pub mod Media
pub mod Rows
pub mod Blocks
