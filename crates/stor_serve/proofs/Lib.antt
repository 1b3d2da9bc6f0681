pub mod CutLemmas
pub mod DueLemmas
pub mod HeldLemmas
pub mod LinkLemmas
pub mod OfferLemmas
pub mod RowLemmas
pub mod RunLemmas
pub mod TotalsLemmas
