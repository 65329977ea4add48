-- abstract states and their cells
pub mod AbstractStates
pub mod Cells
-- which states of the machine an abstract state describes, and which abstract states are in order
pub mod Fits
pub mod Sound
-- what ids lead to, the patterns of ids, and how large abstract states may be
pub mod Closures
pub mod Patterns
pub mod Limits
-- what holds of all abstract states
pub mod Laws
-- sets of ids, lists of pairs, and pairs as bits
pub mod IdSets
pub mod PairLists
pub mod PackedBits
pub mod Replays
-- the words of private calls
pub mod inner
-- libraries below, given again for the crates above
pub use Rattle.jvm_values.specs as jvm_values
pub use Rattle.lin_core.specs as lin_core
