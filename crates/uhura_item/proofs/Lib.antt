pub mod Picking
pub mod ItemWords
pub mod ItemFound
pub mod OneItem
pub mod ItemLines
pub mod Finding
