-- Concatenated binaries: the part and the tree of a column, why they stand for it, and what the scheme means.
pub mod Laws
pub mod Meaning
pub mod Tree
