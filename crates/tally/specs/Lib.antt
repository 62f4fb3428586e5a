pub mod Tally
pub mod Parts
pub mod Stream
pub mod Files
pub mod Cases
