-- Dictionaries of texts and binaries: the parts and the tree of a column, why they stand for it, and what the schemes mean.
pub mod Codebook
pub mod Distinct
pub mod Laws
pub mod Meaning
pub mod Tree
