pub mod Rules
pub mod Classes
pub mod Said
pub mod ClassFiles
pub mod asm_codes
pub mod asm_pool
