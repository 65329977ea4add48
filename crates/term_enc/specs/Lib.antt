pub mod Encoding
pub mod Filling
pub mod Sizes
pub mod Laws
pub mod inner
-- files of crates below, given again for the crates above
pub use Rattle.abs_reach.specs.JvmHeapsMarks
