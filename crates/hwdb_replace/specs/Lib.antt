pub mod Internal
pub mod Memory
pub mod Sharing
pub mod Laws
