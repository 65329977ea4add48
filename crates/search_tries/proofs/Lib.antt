mod Good
mod Heads
