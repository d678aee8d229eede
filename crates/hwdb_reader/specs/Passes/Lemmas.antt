-- What proofs of the crates above cite, with its proof. Nobody has to believe it.
pub mod Parts
