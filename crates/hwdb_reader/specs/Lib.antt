pub mod Views
pub mod Unread
pub mod Laws
pub mod Samples
pub mod Passes
pub mod Internal
