-- Lemmas of zigzag.
pub mod Tree
