pub mod Words
pub mod Said
pub mod Ending
pub mod Running
