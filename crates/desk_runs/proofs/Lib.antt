pub mod Entering
pub mod Running
pub mod Doing
pub mod Gathering
pub mod Counting
