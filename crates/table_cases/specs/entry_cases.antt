pub mod ReadClasses
