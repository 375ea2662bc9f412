-- Sequences: the tree of a column, why it stands for the column, and what the scheme means.
pub mod Laws
pub mod Meaning
pub mod Tree
