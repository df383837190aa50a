pub mod Item
pub mod Reader
pub mod Read
