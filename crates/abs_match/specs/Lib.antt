pub use Rattle.abs_reach.specs.Instances
pub mod Laws
pub mod inner
