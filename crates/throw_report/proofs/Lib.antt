pub mod Numbers
pub mod Reached
pub mod Adding
pub mod OneReport
pub mod Thrown
pub mod LastSteps
pub mod Walking
pub mod Checked
