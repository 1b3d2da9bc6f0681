pub mod Listening
pub mod Speaking
pub mod Draws
pub mod Sessions
pub mod Serves
pub mod Good
pub mod Lanes
pub mod Rounds
