pub mod Lines
pub mod Answers
pub mod Headline
pub mod Laws
pub mod inner
-- files of crates below, given again for the crates above
pub use Rattle.desc_steps.specs.Headline as DescStepsHeadline
