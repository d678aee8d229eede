pub mod MatchLemmas
pub mod BackLemmas
pub mod ToldLemmas
pub mod ComputedRows
pub mod CoverLemmas
pub mod CauseLemmas
