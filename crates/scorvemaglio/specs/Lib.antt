pub mod Lent
pub mod Others
pub mod Runs
pub mod States
pub mod Voters
pub mod Version
