pub mod Store
pub mod Freed
pub mod Prepared
pub mod Plans
pub mod Opening
pub mod Testing
