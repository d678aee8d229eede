pub mod HeaderLemmas
pub mod EntryLemmas
pub mod NodeLemmas
