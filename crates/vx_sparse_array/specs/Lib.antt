pub mod Data
pub mod DataWrites
pub mod Encoded
pub mod Filling
pub mod Refused
pub mod Resolved
