pub mod Scanning
pub mod TokenGrammar
pub mod WholeLists
