pub mod Accepted
pub mod Accepting
pub mod FileBytes
pub mod FillSaying
pub mod OneAnswer
pub mod Outcomes
pub mod ProgramNumbers
pub mod Reading
pub mod Saying
-- files of crates below, given again for the crates above
pub use Rattle.cert_verdict.proofs.Rules as CertVerdictRules
