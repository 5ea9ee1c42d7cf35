pub mod Replica
pub mod Changed
pub mod Merges
pub mod Cells
pub mod Sample
