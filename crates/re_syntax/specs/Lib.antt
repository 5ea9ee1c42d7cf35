pub mod Grammar
pub mod OneAnswer
pub mod Places
pub mod Programs
pub mod Steps
