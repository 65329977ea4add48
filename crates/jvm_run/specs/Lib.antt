pub mod Laws
pub mod Runs
-- libraries below, given again for the crates above
pub use Rattle.code_verify.specs as code_verify
pub use Rattle.jvm_step.specs as jvm_step
-- files of crates below, given again for the crates above
pub use Rattle.class_program.specs.code_forms.declared.insn.Case as CodeFormsCase
pub use Rattle.jvm_step.specs.op_forms.Forms as OpFormsForms
pub use Rattle.jvm_step.specs.op_forms.Widths as OpFormsWidths
pub use Rattle.jvm_step.specs.op_forms.declared.form.Shuffle as OpFormsShuffle
