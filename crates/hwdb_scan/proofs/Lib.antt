pub mod PieceLemmas
pub mod ComputedRows
pub mod ScanningLemmas
pub mod EnoughLemmas
