pub mod Keys
pub mod Lists
pub mod Rows
pub mod Laws
