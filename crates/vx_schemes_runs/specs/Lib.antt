pub mod Delta
pub mod RowsAt
pub mod RowsAtLaws
pub mod RunEnd
pub mod RunLength
pub mod Sequence
pub mod Sparse
pub mod Thresholds
