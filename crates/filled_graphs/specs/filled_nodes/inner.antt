-- Words of private calls.
pub mod ChildStates
pub mod Slots
