pub mod Ranks
pub mod ChainLemmas
pub mod Picks
pub mod DraftLemmas
