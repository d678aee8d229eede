-- What proofs of this crate and of those above it cite: statements with their proofs.
pub mod Members
pub mod Ascending
pub mod Bytes
pub mod Pieces
