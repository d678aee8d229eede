pub mod JsonTokens
pub mod Escapes
pub mod Laws
pub mod Rows
pub mod Lemmas
pub mod Shell
