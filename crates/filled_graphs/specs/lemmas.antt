-- That parts have one filled graph, with what it needs of lists: proofs.
pub mod Lists
pub mod Once
