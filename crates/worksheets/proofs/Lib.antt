mod Taken
mod Ways
mod Spelling
