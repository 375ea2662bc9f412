-- Bit packing: the tree of a column, why it stands for the column, and what the scheme means.
pub mod Admitted
pub mod FirstLeast
pub mod Laws
pub mod Meaning
pub mod Picked
pub mod Rising
pub mod Tree
