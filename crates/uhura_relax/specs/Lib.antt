pub mod Loosened
pub mod Schedule
