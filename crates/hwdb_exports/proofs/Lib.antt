pub mod SetLemmas
pub mod StepLemmas
pub mod ComputedRows
