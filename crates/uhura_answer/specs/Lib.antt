pub mod Literals
pub mod Stated
