pub mod Plain
pub mod Stepwise
pub mod Found
pub mod inner
