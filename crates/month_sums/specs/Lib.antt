pub mod Open
pub mod Closing
pub mod Opening
pub mod Counting
