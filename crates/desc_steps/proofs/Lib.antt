pub mod Answering
pub mod BareHeaps
pub mod Fitting
pub mod GivenValues
pub mod NamedOnce
pub mod Naming
pub mod OneAnswer
pub mod Said
