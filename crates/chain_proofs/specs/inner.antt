-- Words of private calls.
pub mod Dealt
pub mod Sets
