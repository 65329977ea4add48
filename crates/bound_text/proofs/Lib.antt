pub mod Clean
pub mod Ids
pub mod Within
