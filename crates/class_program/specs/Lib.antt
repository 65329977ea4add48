-- programs, and what is known of each of them
pub mod Programs
pub mod Instructions
pub mod Good
pub mod Widths
pub mod Views
-- which methods an entry reaches, and the static fields that they name
pub mod Reached
pub mod Runs
pub mod Statics
-- what a method and its instructions are once their names are resolved
pub mod Methods
pub mod Operands
pub mod Ops
pub mod Signatures
pub mod JvmDiffers
-- what a call runs on an object
pub mod Selected
-- what is said of a part that breaks a rule
pub mod Said
pub mod Refusals
-- the words of private calls, and a proof for a ghost field
pub mod inner
pub mod lemmas
-- libraries below, given again for the crates above
pub use Rattle.class_world.specs as class_world
pub use Rattle.class_world.specs.class_read
pub use Rattle.class_world.specs.code_forms
pub use Rattle.code_decode.specs as code_decode
