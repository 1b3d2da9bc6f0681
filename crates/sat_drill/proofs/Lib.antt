pub mod Faultless
pub mod RunLemmas
