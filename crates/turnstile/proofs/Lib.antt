pub mod Entering
pub mod Histories
pub mod Passes
pub mod Seats
pub mod Sharing
pub mod Steps
