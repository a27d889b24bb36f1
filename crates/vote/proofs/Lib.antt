pub mod Alarms
pub mod ByRun
pub mod Bytes
pub mod Clauses
pub mod Exactly
pub mod Parts
pub mod Stepwise
pub mod Unique
