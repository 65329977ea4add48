pub mod Entry
pub mod Text
pub mod Reading
pub mod Faults
pub mod inner
