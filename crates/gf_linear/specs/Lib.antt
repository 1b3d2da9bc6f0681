pub mod Table
pub mod System
pub mod Elimination
pub mod Polynomial
pub mod Lagrange
pub mod Differences
