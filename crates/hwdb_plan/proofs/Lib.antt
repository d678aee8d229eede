pub mod LawLemmas
pub mod AdviceLemmas
