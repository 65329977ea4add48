pub mod Acts
pub mod Alike
pub mod Closing
pub mod FreshIds
pub mod OneAnswer
pub mod OneList
pub mod Splits
