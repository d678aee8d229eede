pub mod PlaceLemmas
pub mod WindowLemmas
