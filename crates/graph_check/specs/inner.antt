-- Words of private calls.
pub mod Checked
