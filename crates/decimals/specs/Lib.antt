pub mod Scan
pub mod Number
pub mod Write
pub mod Value
pub mod Numeral
pub mod Justify
pub mod Grammar
