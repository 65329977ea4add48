-- Words of private calls.
pub mod Working
