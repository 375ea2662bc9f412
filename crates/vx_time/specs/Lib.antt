pub mod CanonicalParts
pub mod PartsOf
pub mod Refusals
