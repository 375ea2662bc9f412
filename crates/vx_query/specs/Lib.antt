pub mod Queries
pub mod Roots
pub mod Steps
