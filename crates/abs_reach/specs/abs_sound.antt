pub mod Tests
pub mod Zips
