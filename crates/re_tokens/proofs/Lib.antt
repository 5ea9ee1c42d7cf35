pub mod Found
pub mod Gaps
pub mod Lists
pub mod Marks
pub mod Reading
pub mod Sameness
pub mod WholeLists
