pub mod Verdict
pub mod Steps
pub mod Descent
pub mod Trail
