pub mod Settled
pub mod ReadOff
pub mod Examples
