pub mod Alarms
pub mod Answers
pub mod Parts
pub mod Run
pub mod Vote
pub mod Which
