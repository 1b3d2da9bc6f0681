pub mod Heard
pub mod Verdict
pub mod Recheck
