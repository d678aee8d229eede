pub mod ComputedRows
pub mod LookupLemmas
pub mod NameLemmas
pub mod WordLemmas
