pub mod ValueLemmas
pub mod AncestorLemmas
pub mod WalkLemmas
pub mod BitLemmas
pub mod RuleLemmas
pub mod ComputedRows
pub mod AddressLemmas
