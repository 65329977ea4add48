pub mod Unfinished
pub mod Stuck
pub mod Lean
pub mod Answers
pub mod Dealt
pub mod Sets
pub mod inner
pub mod lemmas
