-- What the proofs of this crate speak of.
pub mod Reading
