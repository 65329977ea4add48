-- Words of private calls.
pub mod Wording
