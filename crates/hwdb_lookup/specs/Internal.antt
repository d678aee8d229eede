-- What the proofs of this crate speak of.
pub mod Agreement
pub mod Seen
pub mod Parts
pub mod Heads
pub mod Descents
pub mod Saids
