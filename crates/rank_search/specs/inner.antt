-- Words of private calls.
pub mod Candidates
pub mod Heads
