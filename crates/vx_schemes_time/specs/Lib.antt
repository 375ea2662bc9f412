pub mod Narrowest
pub mod NarrowestLaws
pub mod Stored
pub mod Temporal
