-- Proofs that the impls of traits name.
pub mod Few
