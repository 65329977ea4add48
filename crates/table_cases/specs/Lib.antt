pub mod entry_cases
