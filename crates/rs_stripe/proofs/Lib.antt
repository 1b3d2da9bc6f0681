pub mod ShareLemmas
pub mod SegmentLemmas
pub mod Barycentric
pub mod ManyShares
pub mod ManyPieces
