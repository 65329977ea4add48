pub mod Headline
pub mod Descriptions
pub mod Givable
pub mod Names
pub mod Answers
pub mod Laws
pub mod Given
pub mod inner
