-- Words of private calls.
pub mod Words
pub mod Rest
