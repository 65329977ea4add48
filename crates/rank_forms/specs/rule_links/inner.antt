-- Words of private calls.
pub mod Rising
pub mod Searching
