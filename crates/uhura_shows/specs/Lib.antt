pub mod Leaf
pub mod Cover
pub mod Behind
pub mod Carried
pub mod Shows
pub mod Examples
pub mod Evening
