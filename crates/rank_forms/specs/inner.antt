-- Words of private calls.
pub mod Following
pub mod Forms
pub mod Weighing
