-- Words of private calls.
pub mod Building
pub mod Sizing
pub mod Ways
