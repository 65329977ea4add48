pub mod Claims
pub mod Lines
pub mod Outside
pub mod Words
pub mod inner
