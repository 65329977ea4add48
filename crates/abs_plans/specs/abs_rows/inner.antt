-- Words of private calls.
pub mod Accesses
