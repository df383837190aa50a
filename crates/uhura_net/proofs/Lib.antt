mod Bounds
pub mod Cancelling
mod Cells
pub mod Clones
pub mod Cycles
pub mod Duality
mod Empty
pub mod Firm
pub mod Keys
mod Linking
mod Listed
mod Moves
pub mod Outweighing
pub mod Paying
mod Worths
pub mod Pushing
mod Relisting
pub mod Rows
pub mod Scaled
mod Setting
pub mod Sums
pub mod Walks
