pub mod Journals
pub mod Commits
pub mod Scans
pub mod Readings
