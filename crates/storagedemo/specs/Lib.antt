pub mod Records
pub mod Keys
