pub mod migrate_call
pub mod loop_search
