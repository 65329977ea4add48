-- the classes of a world, their types, what their descriptors mean, and the fields of their objects
pub mod World
pub mod Types
pub mod Descriptors
pub mod Fields
-- which classes make a world
pub mod Linking
pub mod Worlds
-- which member a name stands for, and which method a call runs
pub mod Members
pub mod Resolve
pub mod Hidden
pub mod Select
-- a world's types for heaps, what all worlds have in common, and faults in words
pub mod WorldTypes
pub mod BuiltIns
pub mod Faults
-- the words of private calls, and proofs for the laws of types
pub mod inner
pub mod lemmas
-- libraries below, given again for the crates above
pub use Rattle.class_read.specs as class_read
pub use Rattle.class_read.specs.class_pool
pub use Rattle.code_forms.specs as code_forms
pub use Rattle.code_forms.specs.class_base
