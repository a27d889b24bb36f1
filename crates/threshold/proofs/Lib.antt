pub mod Exactly
pub mod Median
pub mod Noughts
pub mod Numbers
pub mod Order
pub mod Promises
pub mod Unique
