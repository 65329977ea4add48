pub mod LinesAndWords
pub mod Numbers
