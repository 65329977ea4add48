pub mod Laws
-- libraries below, given again for the crates above
pub use Rattle.abs_expand.specs as abs_expand
