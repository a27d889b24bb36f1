pub mod Answers
pub mod Confirm
pub mod Parts
pub mod Run
pub mod Standing
