mod Affected
mod After
pub mod Carried
pub mod Carrying
mod Choosing
mod ArrayCases
mod Classes
mod FieldCells
mod FieldPairs
mod FirstCrowds
pub mod Fitted
pub mod FreshValues
mod Freshness
mod Giving
pub mod Growing
mod Listing
mod Loading
mod Merging
pub mod NewThings
pub mod NumberWrites
mod OneObject
mod PairGains
pub mod Placing
mod Reading
pub mod Renamed
pub mod Renumbering
pub mod Replacing
pub mod SameTerms
pub mod Telling
mod Untold
mod WriteChildren
pub mod ChangedCells
pub mod Written
