pub mod Views
pub mod Internal
pub mod Scanning
pub mod Enough
pub mod Laws
pub mod Rows
