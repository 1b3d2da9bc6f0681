pub mod Cut
pub mod Runs
pub mod Shares
pub mod Once
