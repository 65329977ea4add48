pub mod Regions
pub mod Shapes
pub mod AcyclicTerms
pub mod Marks
pub mod Trees
pub mod Searches
