-- What the laws of a file system in memory, of one with another database in its place, and proofs of the crates above cite: statements
-- with their proofs.
pub mod MemoryNames
pub mod MemoryReads
pub mod OverNames
pub mod OverReads
pub mod LeftOut
pub mod HeldFiles
