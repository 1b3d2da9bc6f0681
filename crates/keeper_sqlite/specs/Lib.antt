pub mod Table
pub mod Records
pub mod Transitions
pub mod Crash
pub mod Answers
pub mod Opened
pub mod Shown
