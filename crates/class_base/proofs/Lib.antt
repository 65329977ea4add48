pub mod Maps
pub mod Keys
pub mod TypeLaws
pub mod MethodLaws
pub mod Turns
