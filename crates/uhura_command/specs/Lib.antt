pub mod Apply
pub mod Errors
pub mod Replay
pub mod Script
pub mod State
