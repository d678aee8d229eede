pub mod AskingLemmas
pub mod ColonLemmas
pub mod ComputedRecords
pub mod ComputedRows
pub mod LastingLemmas
pub mod ListLemmas
mod NearestLemmas
pub mod OnlyLemmas
pub mod OutcomeLemmas
pub mod OutlivesLemmas
pub mod PathLemmas
pub mod PatternLemmas
pub mod SameLemmas
pub mod StringLemmas
mod WordLemmas
pub mod NearRowLemmas
pub mod EveryLemmas
pub mod EveryRowLemmas
