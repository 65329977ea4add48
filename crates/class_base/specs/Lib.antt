pub mod Flags
pub mod ClassNames
pub mod Types
pub mod MethodTypes
pub mod MemberKinds
pub mod Members
pub mod Limits
-- libraries below, given again for the crates above
pub use Rattle.list_views.specs as list_views
