-- What the proofs of this crate speak of.
pub mod Entries
pub mod PostOrder
pub mod Stored
pub mod Spine
pub mod Storable
pub mod Codes
pub mod Keyed
pub mod Word
pub mod Numbered
pub mod Narrow
pub mod Membership
pub mod Strings
