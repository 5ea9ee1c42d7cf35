pub mod Stopping
pub mod Records
pub mod Heads
pub mod ScannedFiles
pub mod Gates
pub mod Committed
pub mod Windows
