pub mod Formed
pub mod Plain
pub mod Widths
