pub mod Weights
pub mod LeftLemmas
pub mod RowLemmas
pub mod Ready
pub mod MonthLemmas
pub mod PassLemmas
pub mod TallyWeights
pub mod Counted
