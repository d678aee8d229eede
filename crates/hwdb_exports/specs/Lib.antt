pub mod Views
pub mod Internal
pub mod Reports
pub mod Rows
