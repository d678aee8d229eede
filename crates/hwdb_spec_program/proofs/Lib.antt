pub mod ComputedRows
