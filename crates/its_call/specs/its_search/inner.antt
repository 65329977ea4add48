-- Words of private calls.
pub mod Following
pub mod Tried
