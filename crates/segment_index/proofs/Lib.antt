pub mod PairLemmas
pub mod Nodes
pub mod LiveLemmas
pub mod Moves
pub mod Kept
pub mod Walks
pub mod Found
pub mod Asked
