pub mod Following
pub mod ReadScalars
pub mod StandardFacts
