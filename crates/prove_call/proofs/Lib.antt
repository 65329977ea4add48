pub mod OneAnswer
pub mod Saying
pub mod Texts
