pub mod Printing
pub mod Marking
pub mod Cases
