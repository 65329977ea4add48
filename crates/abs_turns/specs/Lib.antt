pub mod Plans
pub mod Table
pub mod Throwing
pub mod Turns
pub mod Needs
pub mod Switches
pub mod GoodPlans
pub mod Stops
pub mod ShortRows
pub mod OperandsSeen
pub mod PlansSeen
-- libraries below, given again for the crates above
pub use Rattle.abs_heap.specs as abs_heap
pub use Rattle.abs_heap.specs.term_graph
pub use Rattle.code_verify.specs as code_verify
pub use Rattle.jvm_step.specs as jvm_step
pub use Rattle.jvm_step.specs.class_world
pub use Rattle.jvm_step.specs.op_forms
