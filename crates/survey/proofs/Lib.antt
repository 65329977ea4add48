pub mod Asking
pub mod Ending
pub mod Judgements
pub mod Kept
pub mod Telling
pub mod Truths
pub mod Walks
