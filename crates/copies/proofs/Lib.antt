mod Blocks
mod Counting
mod Ends
mod Present
mod Rows
mod Walks
