-- typings of methods and of programs, and the least of them
pub mod Typings
-- states of the machine that have the types of a typing
pub mod TypedStates
-- what each form of instruction makes of the types of its frame
pub mod Rows
pub mod Operands
-- where code leads, and with what types
pub mod Flows
-- what calls answer
pub mod Answers
-- the words of private calls
pub mod inner
-- files of crates below, given again for the crates above
pub use Rattle.frame_types.specs.Places as FrameTypesPlaces
pub use Rattle.frame_types.specs.Tables as FrameTypesTables
