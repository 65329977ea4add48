pub mod Behind
pub mod Items
pub mod Leads
pub mod Least
