pub mod PickedLiterals
pub mod ReadSides
pub mod Bounds
pub mod Shifted
pub mod Stating
