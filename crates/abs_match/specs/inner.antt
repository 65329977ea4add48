pub mod Matching
pub mod Forced
