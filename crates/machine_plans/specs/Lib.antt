pub mod Opened
pub mod Ends
pub mod Outcomes
