pub mod Flags
pub mod Eligible
pub mod Chains
pub mod Draft
pub mod Placed
