pub mod Causes
pub mod Lines
pub mod Answers
pub mod Headline
pub mod Laws
pub mod FillTexts
pub mod FillAnswers
pub mod inner
