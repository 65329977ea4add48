pub mod Reports
pub mod Endings
pub mod Laws
pub mod Answers
pub mod Lines
pub mod inner
