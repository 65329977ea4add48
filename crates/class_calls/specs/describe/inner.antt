-- Words of private calls.
pub mod Rows
