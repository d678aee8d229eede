-- What the proofs of this crate speak of.
pub mod Lists
pub mod Hits
pub mod Explaining
pub mod Collected
pub mod Live
pub mod LongPaths
pub mod Descents
pub mod Pairs
pub mod Members
