pub mod State
pub mod Vetoes
pub mod Find
pub mod Denial
pub mod Edits
pub mod Refusals
pub mod Room
