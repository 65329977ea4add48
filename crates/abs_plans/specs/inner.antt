-- Words of private calls.
pub mod Casts
pub mod TestsSeen
