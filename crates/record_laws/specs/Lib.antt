pub mod Valid
pub mod Laws
pub mod MatrixLaws
pub mod Examples
pub mod Shown
