pub mod Counts
pub mod Exactly
pub mod Taken
pub mod Unique
