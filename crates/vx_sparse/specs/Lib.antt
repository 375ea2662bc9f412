pub mod CellPairs
pub mod Filters
pub mod Kernels
pub mod Metadata
pub mod Places
pub mod RowAnswers
pub mod Slices
pub mod SumParts
