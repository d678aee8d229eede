pub mod GatherLemmas
pub mod AcceptanceLemmas
pub mod LatestLemmas
pub mod InWordsLemmas
