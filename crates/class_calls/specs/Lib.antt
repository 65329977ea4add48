pub mod command_rows
pub mod asm_call
pub mod run_call
pub mod describe
