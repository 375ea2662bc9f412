pub mod NullLemmas
pub mod PartLemmas
pub mod RatioLemmas
pub mod StandardFacts
