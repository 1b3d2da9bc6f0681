pub mod Rows
pub mod Place
pub mod Slots
pub mod Entries
pub mod Blocks
pub mod Least
