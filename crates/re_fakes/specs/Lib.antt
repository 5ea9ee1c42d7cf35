pub mod Fails
pub mod Files
pub mod Past
pub mod Replay
pub mod Stops
pub mod Told
pub mod World
