pub mod Data
pub mod Readable
pub mod inner
