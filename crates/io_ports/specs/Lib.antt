pub mod Count
pub mod FileFault
pub mod Told
pub mod Taken
pub mod MemoryFiles
pub mod MemorySink
