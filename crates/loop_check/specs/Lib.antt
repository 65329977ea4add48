pub mod Loops
pub mod Laws
pub mod Fitting
pub mod OneVerdict
pub mod Lines
pub mod inner
-- files of crates below, given again for the crates above
pub use Rattle.input_fits.specs.Givens as InputFitsGivens
