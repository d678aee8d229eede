pub mod Internal
pub mod Laws
pub mod TextViews
pub mod TextRows
