pub mod Building
pub mod Splitting
pub mod Renaming
