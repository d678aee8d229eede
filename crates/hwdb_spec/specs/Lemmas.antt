-- What proofs of the crates above cite: statements with their proofs. Nothing here has to be believed.
pub mod Orders
pub mod Places
pub mod Calls
pub mod Truth
pub mod Lists
