pub mod Answers
pub mod Disagreement
pub mod OneCount
pub mod Parts
pub mod Run
pub mod Second
pub mod Tuple
