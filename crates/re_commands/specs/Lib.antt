pub mod Commanding
pub mod Faults
pub mod LineGrammar
pub mod RawLines
