pub mod Views
pub mod Internal
pub mod Lemmas
