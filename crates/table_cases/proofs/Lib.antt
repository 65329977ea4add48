pub mod MoreClasses
