pub mod BitLaws
pub mod FormatLaws
pub mod ListLaws
pub mod Loops
pub mod MessageLaws
pub mod NumberLaws
