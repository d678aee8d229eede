-- What proofs of this crate and of those above it cite: statements with their proofs.
pub mod Json
pub mod Names
