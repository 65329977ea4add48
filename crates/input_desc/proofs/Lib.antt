pub mod Faultless
pub mod Fitted
pub mod GoodDescs
pub mod NamedTypes
pub mod TypedInputs
pub mod Unfit
pub mod Wider
pub mod Zipped
