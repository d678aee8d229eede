pub mod Views
pub mod Beginnings
pub mod Laws
pub mod Rows
pub mod Internal
