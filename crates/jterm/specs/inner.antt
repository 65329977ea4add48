-- Words of private calls.
pub mod GenerateSaid
pub mod Failure
