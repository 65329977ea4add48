-- Words of private calls.
pub mod Lines
pub mod Placed
pub mod Marking
pub mod Handing
pub mod Inserting
pub mod Spreading
