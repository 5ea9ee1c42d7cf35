pub mod Choices
pub mod Committing
pub mod Finding
pub mod Heads
pub mod Laying
pub mod Pair
