pub mod Views
pub mod Laws
pub mod Internal
pub mod Lemmas
