pub mod ShownLemmas
pub mod ColourLemmas
pub mod WindowLemmas
pub mod VisibleLemmas
pub mod EscapeLemmas
pub mod WordLemmas
