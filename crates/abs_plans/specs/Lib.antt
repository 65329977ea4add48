pub mod Planning
pub mod inner
pub mod abs_rows
-- libraries below, given again for the crates above
pub use Rattle.abs_turns.specs as abs_turns
pub use Rattle.abs_turns.specs.code_verify
pub use Rattle.abs_turns.specs.jvm_step
-- files of crates below, given again for the crates above
pub use Rattle.abs_turns.specs.op_forms.Forms as OpFormsForms
pub use Rattle.frame_types.specs.Tables as FrameTypesTables
