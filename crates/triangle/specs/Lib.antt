pub mod Triangle
pub mod Laws
pub mod Statements
pub mod Files
