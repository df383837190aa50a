pub mod Beginnings
pub mod KeysAt
mod PlaceSums
pub mod Barred
mod Paid
mod PlacesCost
pub mod Duality
pub mod Settling
pub mod ReadOff
mod Pairs
mod ReadUnits
mod AroundDrive
