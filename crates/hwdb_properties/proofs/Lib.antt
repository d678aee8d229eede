pub mod NameLemmas
pub mod RowLemmas
pub mod SameLemmas
pub mod CommonLemmas
pub mod ApartLemmas
pub mod PieceLemmas
pub mod NearRowLemmas
pub mod SkipLemmas
