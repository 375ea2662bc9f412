-- Compressed patches, and why they stand for those that they were made of.
pub mod Compressed
pub mod Laws
pub mod Words
