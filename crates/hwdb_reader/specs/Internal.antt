-- What the proofs of this crate speak of.
pub mod Codes
pub mod Paths
pub mod Placed
pub mod Read
pub mod Walks
pub mod Repeats
pub mod Stars
pub mod Shared
