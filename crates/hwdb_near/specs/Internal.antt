-- What the proofs of this crate speak of.
pub mod Ratings
pub mod Lines
pub mod Closest
pub mod Places
pub mod Once
