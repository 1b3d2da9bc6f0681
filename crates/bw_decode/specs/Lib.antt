pub mod Near
pub mod Room
pub mod Equations
pub mod Altered
pub mod Forms
pub mod Answers
