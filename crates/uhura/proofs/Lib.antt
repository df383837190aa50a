pub mod Taking
pub mod Pieces
pub mod Standing
pub mod Telling
pub mod Sending
pub mod Measuring
