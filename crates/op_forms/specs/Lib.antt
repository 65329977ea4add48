pub mod Forms
pub mod Widths
