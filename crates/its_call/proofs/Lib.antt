pub mod Ending
pub mod Plain
pub mod Trying
pub mod Asked
pub mod Reasons
pub mod Shown
