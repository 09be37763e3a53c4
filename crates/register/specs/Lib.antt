pub mod Tests
pub mod Views
pub mod Making
pub mod Writing
