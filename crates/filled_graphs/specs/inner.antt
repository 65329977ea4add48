-- Words of private calls.
pub mod Noting
