pub mod Steps
pub mod Texts
pub mod Classes
pub mod Programs
pub mod Lines
