pub mod Welch
pub mod Equations
pub mod Locator
pub mod Counts
pub mod Forms
pub mod NearStripes
pub mod Rounds
pub mod Held
