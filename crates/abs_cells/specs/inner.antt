pub mod PackedRows
