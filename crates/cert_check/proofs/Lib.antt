pub mod Bounded
pub mod Ending
pub mod Linking
pub mod Running
pub mod Showing
pub mod Terms
pub mod Preparing
pub mod Telling
