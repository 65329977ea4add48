pub mod SpellingViews
pub mod Names
pub mod Texts
pub mod Reading
pub mod Codes
pub mod Encoding
pub mod Flow
