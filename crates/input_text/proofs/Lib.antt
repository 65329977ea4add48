pub mod Clean
pub mod Items
pub mod Numbers
pub mod ValueCases
