pub mod Added
mod Caps
mod Denials
pub mod Items
mod Removed
pub mod SoundRooms
pub mod Unrefused
