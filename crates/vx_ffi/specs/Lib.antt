pub mod Compressed
pub mod Files
pub mod Held
pub mod Outcomes
pub mod Statuses
