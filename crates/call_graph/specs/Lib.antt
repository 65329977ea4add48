pub mod Calls
pub mod Faults
-- the words of private calls
pub mod inner
