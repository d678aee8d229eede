pub mod NameLemmas
pub mod PutLemmas
pub mod FoundLemmas
