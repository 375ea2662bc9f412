-- Lemmas of bit packing.
pub mod Negative
pub mod Tree
pub mod Wide
