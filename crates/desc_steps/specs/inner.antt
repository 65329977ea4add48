-- Words of private calls.
pub mod Rest
pub mod Typed
