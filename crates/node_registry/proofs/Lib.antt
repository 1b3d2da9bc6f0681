pub mod Rated
pub mod Numbered
