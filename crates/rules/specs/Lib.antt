pub mod Bits
pub mod Choose
pub mod Limits
pub mod Promise
pub mod Refusal
pub mod Refusals
pub mod Signals
pub mod Table
