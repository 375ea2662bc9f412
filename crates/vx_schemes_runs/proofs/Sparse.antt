-- Sparse values: what holds of the trees that the scheme makes.
pub mod Produced
pub mod Ratio
pub mod Runs
pub mod Split
pub mod Tree
pub mod Vote
