pub mod Blocks
pub mod DataLines
pub mod Frames
pub mod Headings
pub mod Lines
pub mod Places
pub mod Rules
pub mod Titles
