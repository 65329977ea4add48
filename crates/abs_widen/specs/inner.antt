pub mod Visiting
pub mod Pairing
