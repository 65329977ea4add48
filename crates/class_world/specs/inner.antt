-- What the code holds and how it goes through it: the words of private calls. No public clause names them.
pub mod Tables
pub mod Marking
pub mod Index
pub mod Seeking
pub mod Once
