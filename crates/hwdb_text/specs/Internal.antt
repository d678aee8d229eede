-- What the proofs of this crate speak of.
pub mod Contents
pub mod Reading
pub mod Choosing
