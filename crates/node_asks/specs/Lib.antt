pub mod Asks
pub mod Answers
pub mod Hearing
pub mod Remaking
pub mod Spreading
pub mod Ending
pub mod Telling
