pub mod Caused
pub mod Checks
pub mod Clipping
pub mod CommandLines
pub mod Endings
pub mod Ends
pub mod Failing
pub mod Judging
pub mod Opened
pub mod Orders
pub mod Parts
pub mod PassedLines
pub mod Programs
pub mod Serves
pub mod Sessions
pub mod Splits
pub mod Starting
pub mod Stopping
pub mod Unopened
pub mod Settling
mod Relaying
mod WholeParts
