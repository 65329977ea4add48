pub mod Lists
pub mod Options
pub mod Results
pub mod ByteLists
pub mod FaultWords
