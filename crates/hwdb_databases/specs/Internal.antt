-- What the proofs of this crate speak of.
pub mod Alike
pub mod Trails
pub mod Spellings
pub mod Walks
pub mod Merging
pub mod Pairing
pub mod Meeting
pub mod Counting
pub mod Forms
pub mod Unmet
pub mod Counts
pub mod Plain
pub mod Holding
pub mod Renaming
