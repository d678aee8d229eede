pub mod Views
pub mod Laws
pub mod Rows
pub mod Internal
pub mod Refusals
