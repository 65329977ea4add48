pub mod Filling
pub mod Origins
pub mod inner
pub mod lemmas
pub mod filled_nodes
