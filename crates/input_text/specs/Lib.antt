pub mod Answers
pub mod Fields
pub mod Inputs
pub mod Descriptions
pub mod Values
pub mod Objects
pub mod States
pub mod Faults
