pub mod Views
pub mod Refusals
pub mod Laws
pub mod Rows
pub mod Internal
