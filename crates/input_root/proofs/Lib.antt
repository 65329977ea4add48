pub mod Found
pub mod Holding
pub mod Listed
pub mod Rooted
pub mod Shown
pub mod SoundRoots
