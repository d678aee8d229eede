pub mod CommandWords
pub mod LookupCommands
pub mod Builtins
pub mod Settable
pub mod Views
pub mod Laws
pub mod Rows
