pub mod Answered
pub mod Decoded
pub mod Given
