pub mod Proof
pub mod Made
pub mod Entries
pub mod Using
pub mod Read
