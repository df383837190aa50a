mod Backward
mod Measured
mod Noting
mod Putting
mod Raising
mod Reaching
mod Sound
pub mod Steps
mod Swapping
mod Trail
pub mod Turns
mod Backtrack
mod Beginning
pub mod Distances
mod Ends
mod Finding
mod Listwalk
