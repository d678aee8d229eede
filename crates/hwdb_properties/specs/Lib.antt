pub mod Internal
pub mod Rows
pub mod Common
pub mod NearRows
pub mod Skipping
