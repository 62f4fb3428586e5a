pub mod Chart
pub mod Motion
pub mod Cases
pub mod Class
