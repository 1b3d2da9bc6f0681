pub mod Entry
pub mod History
pub mod Known
pub mod Passes
pub mod Rule
pub mod Steps
pub mod Turned
