-- What proofs of this crate and of those above it cite: statements with their proofs.
pub mod Any
pub mod Pieces
pub mod Files
pub mod Lines
