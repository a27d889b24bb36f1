pub mod Digits
pub mod Laws
pub mod ReadBack
pub mod Unique
