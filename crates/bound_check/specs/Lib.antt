pub mod Parts
pub mod Entries
pub mod Bounds
pub mod Laws
pub mod Answers
pub mod Lines
pub mod ValidParts
pub mod inner
