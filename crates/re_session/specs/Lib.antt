pub mod Acts
pub mod Begins
pub mod Fares
pub mod Histories
pub mod LineAnswers
pub mod Serving
pub mod Stops
