pub mod Shearing
pub mod Splitting
pub mod Columns
pub mod Widths
pub mod Assembled
pub mod Blocks
pub mod CopyLines
pub mod ReadingBack
