pub mod Comparing
pub mod Words
pub mod Phrases
pub mod Spellings
pub mod TypeTable
