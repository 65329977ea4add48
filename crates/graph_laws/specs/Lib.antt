pub mod Growth
pub mod Laws
-- libraries below, given again for the crates above
pub use Rattle.grow_laws.specs as grow_laws
pub use Rattle.grow_laws.specs.place_sorts
