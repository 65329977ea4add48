pub mod Calls
pub mod Casts
pub mod IntSteps
pub mod Moves
pub mod Objects
pub mod References
pub mod Returns
pub mod Statics
