-- Words of private calls.
pub mod Known
pub mod Numbers
