-- Proofs that a program's ghost field needs, which may not name those of proofs/.
pub mod WidthProps
