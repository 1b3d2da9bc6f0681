pub mod Amounts
pub mod InStep
pub mod Placed
