pub mod Views
pub mod Performing
pub mod Links
pub mod Offering
pub mod Runs
pub mod Totals
