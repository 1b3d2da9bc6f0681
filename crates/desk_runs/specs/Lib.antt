pub mod Entered
pub mod Runs
pub mod Gathered
pub mod Numbered
