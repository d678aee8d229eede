mod NameLemmas
mod ChainLemmas
mod LinkLemmas
mod NearLemmas
