pub mod Groups
pub mod Levels
pub mod Views
pub mod Internal
pub mod Keys
pub mod Laws
pub mod Rows
pub mod KeyRows
