pub mod Laws
-- libraries below, given again for the crates above
pub use Rattle.place_sorts.specs as place_sorts
-- files of crates below, given again for the crates above
pub use Rattle.code_verify.specs.Typings as CodeVerifyTypings
