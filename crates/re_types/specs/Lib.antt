pub mod Admitting
pub mod Capitals
pub mod Parts
pub mod PutOrder
pub mod Resolving
pub mod Scopes
pub mod Tables
