pub mod Values
pub mod Names
pub mod Command
pub mod Words
