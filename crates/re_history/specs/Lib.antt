pub mod Items
pub mod Boards
pub mod Rule
pub mod Names
pub mod Sample
