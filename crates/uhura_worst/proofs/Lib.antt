mod Single
mod OneOfEach
mod CappedDrive
mod Puts
pub mod FirstItems
pub mod SoundItems
pub mod WorstCase
pub mod FirmEdges
pub mod WholeTimes
pub mod PassedUnits
mod Pairs
mod Slots
