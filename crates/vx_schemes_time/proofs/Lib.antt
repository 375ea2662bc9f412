pub mod ExtremeLemmas
pub mod PartTrees
pub mod Produced
pub mod SplitParts
pub mod StandardFacts
pub mod StoredLemmas
