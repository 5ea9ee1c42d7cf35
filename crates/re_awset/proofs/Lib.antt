pub mod Cuts
pub mod Fronts
pub mod Inserts
pub mod Kept
pub mod Merges
pub mod Ordered
pub mod Sizes
pub mod Splits
