pub mod Delta
pub mod RunFacts
pub mod RunParts
pub mod RunsProduced
pub mod Sequence
pub mod Sparse
pub mod ThresholdLemmas
