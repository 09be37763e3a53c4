pub mod Order
pub mod Text
pub mod Codes
pub mod ParameterTypes
