pub mod Draws
pub mod SampleLines
pub mod SampleTexts
