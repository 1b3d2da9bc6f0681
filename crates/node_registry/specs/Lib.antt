pub mod Standing
pub mod Reputation
pub mod Registry
pub mod Left
pub mod Subnet
