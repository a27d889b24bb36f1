pub mod Promises
pub mod Threshold
