pub mod Commands
pub mod Sheets
pub mod Taking
pub mod Prints
pub mod Replays
