-- Proofs that the laws of a world's types need, which may not name those of proofs/.
pub mod Walks
pub mod Classes
pub mod Subtypes
pub mod Linked
pub mod SlotLaws
pub mod WorldLaws
