pub mod Named
pub mod Audits
pub mod Repairs
