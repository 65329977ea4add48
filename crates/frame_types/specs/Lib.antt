pub mod Places
pub mod Tables
pub mod Joins
pub mod Growth
-- how often a table can still grow
pub mod Heights
pub mod Work
