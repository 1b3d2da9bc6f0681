pub mod Answers
pub mod Offering
pub mod PathSteps
pub mod Paths
pub mod Requests
pub mod Settlements
pub mod Values
