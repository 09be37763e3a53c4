pub mod Orders
pub mod Halves
pub mod Shifts
pub mod Places
pub mod Edits
pub mod Standing
