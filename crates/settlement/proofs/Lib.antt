pub mod New
pub mod Once
