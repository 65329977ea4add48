-- Words of private calls.
pub mod Said
