-- Words of private calls.
pub mod PartChecks
