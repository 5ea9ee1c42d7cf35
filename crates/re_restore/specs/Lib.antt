pub mod Opening
pub mod Reading
pub mod Refusals
pub mod Replaying
