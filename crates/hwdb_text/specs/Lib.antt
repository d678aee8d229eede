pub mod Views
pub mod PiecesLeft
pub mod Laws
pub mod Rows
pub mod Internal
pub mod Lemmas
