pub mod Range
pub mod Units
pub mod Bolt
pub mod Refusal
pub mod Order
