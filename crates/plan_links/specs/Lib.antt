pub mod Laws
-- libraries below, given again for the crates above
pub use Rattle.abs_expand.specs.abs_plans
pub use Rattle.jvm_run.specs as jvm_run
