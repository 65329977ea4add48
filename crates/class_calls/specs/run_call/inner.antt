-- Words of private calls.
pub mod Rest
