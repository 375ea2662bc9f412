-- Lemmas of dictionaries.
pub mod Codes
pub mod Encoding
pub mod Places
pub mod Ratio
pub mod Tree
