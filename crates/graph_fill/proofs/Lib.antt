pub mod Lacking
pub mod NoChildren
pub mod Once
