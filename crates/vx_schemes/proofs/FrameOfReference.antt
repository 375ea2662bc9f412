-- Lemmas of frames of reference.
pub mod Blocks
pub mod Facts
pub mod Framed
pub mod Least
pub mod Tree
