pub mod Alarms
pub mod HandOver
pub mod Pairs
pub mod Parts
pub mod Reserve
pub mod Run
pub mod Voted
