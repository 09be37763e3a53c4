pub mod Refused
pub mod FileReport
pub mod FrameReport
