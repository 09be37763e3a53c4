pub mod Appends
pub mod Bodies
pub mod Copy
pub mod Lengths
pub mod Measures
pub mod Writes
