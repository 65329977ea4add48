pub mod Pooled
pub mod Instructions
pub mod Places
pub mod LineFaults
pub mod MethodCodes
pub mod Said
