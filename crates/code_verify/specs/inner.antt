-- Words of private calls.
pub mod Solving
