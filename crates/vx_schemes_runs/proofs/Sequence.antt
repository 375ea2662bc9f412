pub mod Facts
pub mod Produced
pub mod Verdict
