pub mod Lookups
pub mod Asked
pub mod JsonLaws
pub mod Streams
pub mod Internal
