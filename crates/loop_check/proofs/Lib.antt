pub mod Seeking
pub mod Waiting
pub mod Lasting
pub mod Answering
pub mod OneVerdict
