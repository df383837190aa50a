pub mod Conversing
pub mod Kept
pub mod AnswersEdits
pub mod Asking
pub mod ShownFound
pub mod CheckedProofs
pub mod ShowReplays
pub mod Refusals
