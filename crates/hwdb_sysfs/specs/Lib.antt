pub mod Views
pub mod Finding
pub mod Internal
pub mod Tables
pub mod Rows
pub mod Lemmas
