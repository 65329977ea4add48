-- Words of private calls.
pub mod Words
