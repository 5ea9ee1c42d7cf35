pub mod Commanded
pub mod Devices
pub mod NameTokens
pub mod Separated
