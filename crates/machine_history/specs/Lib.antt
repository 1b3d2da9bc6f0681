pub mod History
pub mod Repeats
pub mod Orders
