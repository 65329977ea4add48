pub mod Steps
pub mod OneText
pub mod Paths
pub mod Rules
pub mod VerdictLaw
-- files of crates below, given again for the crates above
pub use Rattle.cert_check.proofs.Bounded as CertCheckBounded
pub use Rattle.cert_check.proofs.Preparing as CertCheckPreparing
pub use Rattle.graph_fill.proofs.Once as GraphFillOnce
