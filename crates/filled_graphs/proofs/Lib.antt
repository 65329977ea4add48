pub mod Noting
pub mod Knowing
pub mod Putting
pub mod SlotStates
