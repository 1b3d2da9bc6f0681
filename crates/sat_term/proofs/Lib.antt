pub mod Crossing
pub mod Rows
pub mod Holding
pub mod Gathering
pub mod LaneLaws
pub mod RoundLaws
pub mod Whole
