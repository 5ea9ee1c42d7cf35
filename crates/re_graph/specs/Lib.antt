pub mod Footprint
pub mod Kept
