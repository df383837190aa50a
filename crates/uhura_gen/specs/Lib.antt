pub mod Draws
pub mod Generator
pub mod Items
pub mod Names
pub mod Numbered
