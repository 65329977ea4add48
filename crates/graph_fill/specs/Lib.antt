pub mod ChildrenOfStates
pub mod Laws
