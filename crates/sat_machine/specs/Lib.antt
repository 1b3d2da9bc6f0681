pub mod Machine
pub mod Sweep
