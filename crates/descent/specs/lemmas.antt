-- The law of orders, with what it needs: proofs.
pub mod Shown
pub mod Values
pub mod RankingLaws
