mod Beginning
pub mod ChildCounts
mod Close
mod Collected
mod Counted
mod Ends
mod Forms
mod Giving
mod Good
mod Grown
mod IdCounts
mod Multipliers
pub mod Names
mod NodeCounts
pub mod Parts
mod Plain
mod ReadableRules
mod Reading
mod Readying
mod RuleRows
mod Sets
mod ShortCases
mod ShortLinks
mod ShortTurns
mod SizeKinds
mod States
mod Steps
mod Storing
mod Targets
-- files of crates below, given again for the crates above
pub use Rattle.abs_expand.proofs.abs_plans.GoodPlans as AbsPlansGoodPlans
