pub mod Clauses
pub mod Confirmed
pub mod Exactly
pub mod Stepwise
pub mod Unique
