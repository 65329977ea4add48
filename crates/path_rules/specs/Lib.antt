pub mod Limits
pub mod Paths
pub mod Stops
pub mod Rules
pub mod Answers
pub mod Conditions
pub mod Walks
pub mod RuleLimits
pub mod Successors
pub mod Sizing
pub mod inner
-- files of crates below, given again for the crates above
pub use Rattle.term_enc.specs.Sizes as TermEncSizes
