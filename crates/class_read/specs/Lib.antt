pub mod Content
pub mod Text
pub mod Rules
pub mod Writing
pub mod Reading
pub mod FirstFault
pub mod View
pub mod Faults
pub mod inner
-- libraries below, given again for the crates above
pub use Rattle.class_pool.specs as class_pool
