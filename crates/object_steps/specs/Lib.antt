-- libraries below, given again for the crates above
pub use Rattle.form_steps.specs as form_steps
pub use Rattle.form_steps.specs.abs_expand
pub use Rattle.form_steps.specs.code_verify
pub use Rattle.form_steps.specs.jvm_run
