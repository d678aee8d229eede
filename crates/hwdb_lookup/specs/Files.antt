pub mod Views
pub mod Internal
