pub mod Words
pub mod Form
pub mod Answers
pub mod Once
pub mod Judge
pub mod Run
pub mod Question
pub mod Lines
