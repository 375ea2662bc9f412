pub mod Joined
pub mod Settled
pub mod Split
pub mod SplitOf
pub mod SplitRows
