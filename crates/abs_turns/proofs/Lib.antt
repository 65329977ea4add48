pub mod OptionLists
pub mod Placing
pub mod ShortRows
pub mod SoundCells
pub mod SwitchLists
