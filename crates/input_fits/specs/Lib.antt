pub mod Givens
pub mod inner
