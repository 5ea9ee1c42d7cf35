pub mod Found
pub mod Places
pub mod Ranks
pub mod Seen
pub mod Telling
