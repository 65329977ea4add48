pub mod Counting
pub mod Cycles
pub mod Falling
pub mod Marked
