pub mod Heads
pub mod Growth
pub mod Cuts
pub mod Reasons
pub mod Answers
pub mod ShortLinks
pub mod PlainRules
pub mod ReadableRules
pub mod Stored
pub mod TextLaws
pub mod inner
-- files of crates below, given again for the crates above
pub use Rattle.chain_proofs.specs.declared.proving.LeftRule as ChainProofsLeftRule
