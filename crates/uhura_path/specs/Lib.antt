pub mod Ways
pub mod Walk
pub mod Found
pub mod Scratch
pub mod Quest
pub mod Search
pub mod Reach
