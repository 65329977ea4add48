pub mod Children
pub mod Holding
pub mod inner
