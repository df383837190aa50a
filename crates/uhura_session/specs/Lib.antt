pub mod Answers
pub mod Session
pub mod Found
pub mod Searching
pub mod Transcript
pub mod Line
pub mod ReadsBack
pub mod Refused
