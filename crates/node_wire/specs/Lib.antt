pub mod Answers
pub mod Asking
pub mod Heard
pub mod Readings
