pub mod Views
pub mod Windows
pub mod Sound
pub mod Files
pub mod Internal
