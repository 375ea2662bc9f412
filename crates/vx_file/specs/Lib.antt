pub mod Answers
pub mod Lengths
pub mod Made
pub mod Writing
