-- Words of private calls.
pub mod Checking
pub mod Forms
pub mod Walking
pub mod Words
