-- Run length: the parts and the tree of a column by its runs in blocks, why they stand for it, and what the scheme means.
pub mod Back
pub mod Laws
pub mod Meaning
pub mod Tree
