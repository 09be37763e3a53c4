pub mod Validity
pub mod Parts
pub mod ComeBack
pub mod Naming
pub mod Shown
