pub mod Entries
pub mod Kernel
pub mod ReducedForm
pub mod Poly
pub mod Lagrange
pub mod PolynomialLaws
