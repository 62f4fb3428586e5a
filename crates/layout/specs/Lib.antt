pub mod Numbers
pub mod Layout
pub mod Header
pub mod Cases
