pub mod Asks
pub mod Counting
pub mod Gathered
pub mod Rounds
