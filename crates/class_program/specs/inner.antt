-- What the code holds while it closes a program: the words of private calls. No public clause names them.
pub mod Rows
pub mod Reads
