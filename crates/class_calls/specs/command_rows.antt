pub mod Rows
pub mod Words
pub mod Usage
pub mod Laws
pub mod inner
