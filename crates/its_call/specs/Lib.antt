pub mod Lines
pub mod Answers
pub mod its_search
