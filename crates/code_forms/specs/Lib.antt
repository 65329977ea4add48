pub mod Spellings
pub mod Opcodes
pub mod Cases
pub mod Faults
pub mod Marks
pub mod Tables
-- libraries below, given again for the crates above
pub use Rattle.class_base.specs as class_base
pub use Rattle.class_base.specs.list_views
