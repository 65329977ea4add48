pub mod Good
pub mod Laws
pub mod OneVerdict
pub mod inner
-- libraries below, given again for the crates above
pub use Rattle.one_expansion.specs.abs_expand
-- files of crates below, given again for the crates above
pub use Rattle.abs_reach.specs.Instances as AbsReachInstances
pub use Rattle.abs_reach.specs.Keys as AbsReachKeys
