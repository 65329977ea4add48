pub mod Widening
pub mod Laws
pub mod Visits
pub mod Rows
pub mod inner
