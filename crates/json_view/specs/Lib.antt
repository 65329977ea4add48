pub mod Place
pub mod Located
pub mod Names
pub mod Reading
pub mod Answers
pub mod Leads
pub mod Faults
