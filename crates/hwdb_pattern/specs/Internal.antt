-- What the proofs of this crate speak of.
pub mod Prefixes
pub mod Met
pub mod Parts
pub mod Search
pub mod Tables
pub mod FirstTokens
pub mod Places
