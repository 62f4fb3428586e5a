pub mod Steps
pub mod Complete
pub mod Writing
pub mod Reading
pub mod Runs
