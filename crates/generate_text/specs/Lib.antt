pub mod Listings
pub mod Descriptions
pub mod generate_laws
