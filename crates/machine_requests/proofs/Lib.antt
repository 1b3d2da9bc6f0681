pub mod CaseLemmas
pub mod ClosingLemmas
