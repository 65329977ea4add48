-- Words of private calls.
pub mod Good
