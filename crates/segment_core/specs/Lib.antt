pub mod Record
pub mod Places
pub mod Commit
pub mod Health
pub mod Rising
