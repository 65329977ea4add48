pub mod Rules
pub mod Disciplined
pub mod Growing
pub mod Answers
pub mod inner
