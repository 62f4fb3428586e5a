pub mod Figures
pub mod Report
pub mod Judging
pub mod Meets
pub mod Cases
pub mod Pinned
