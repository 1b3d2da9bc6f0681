pub mod Place
pub mod Rows
pub mod Refusals
pub mod Settle
