pub mod OfferLemmas
pub mod WriteLemmas
