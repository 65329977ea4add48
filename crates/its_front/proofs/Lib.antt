pub mod Gathered
pub mod Placing
pub mod SaidRows
pub mod Sound
pub mod Walking
pub mod Digits
pub mod Divided
