pub mod Bytes
pub mod Verdict
pub mod Measure
pub mod Run
pub mod Told
pub mod Script
