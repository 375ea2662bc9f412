pub mod Dictionary
pub mod NullSparse
pub mod TypeLaws
pub mod Types
pub mod VarBin
