-- libraries below, given again for the crates above
pub use Rattle.jvm_step.specs as jvm_step
