pub mod Pairs
pub mod Segments
pub mod Indexed
pub mod Keys
pub mod Counting
