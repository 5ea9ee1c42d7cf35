pub mod AnswerTexts
pub mod Canonical
pub mod Sample
