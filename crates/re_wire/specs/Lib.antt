pub mod Reading
pub mod Appended
