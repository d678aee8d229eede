pub mod ComputedLemmas
mod PrefixLemmas
mod FromLemmas
pub mod OrderedLemmas
pub mod NearestLemmas
pub mod FileLemmas
pub mod CountLemmas
pub mod GatheredLemmas
pub mod ReportLemmas
pub mod MatchingLemmas
pub mod ReplacedLemmas
pub mod ComputedRows
pub mod OnceLemmas
