-- Words of private calls.
pub mod Lows
