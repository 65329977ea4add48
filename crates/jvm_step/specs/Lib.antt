-- steps and runs of the machine
pub mod Running
-- what instructions do: the table by forms, its rows, and their operands
pub mod Table
pub mod Effects
pub mod Operands
-- what calls answer: of a step, of an instruction, and where memory is wanting
pub mod Steps
pub mod Acts
pub mod Memory
-- definitions of crates below that the checker unfolds in functions of this crate
pub mod Unfolded
-- libraries below, given again for the crates above
pub use Rattle.class_program.specs as class_program
pub use Rattle.class_program.specs.class_world
pub use Rattle.class_program.specs.code_forms
pub use Rattle.op_forms.specs as op_forms
