pub mod throws_call
pub mod loop_call
pub mod bound_call
-- files of crates below, given again for the crates above
pub use Rattle.cert_check.specs.Valid as CertCheckValid
