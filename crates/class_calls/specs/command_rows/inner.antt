-- Words of private calls.
pub mod Reading
