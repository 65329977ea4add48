-- Words of private calls.
pub mod PlaceTests
pub mod Making
pub mod Building
