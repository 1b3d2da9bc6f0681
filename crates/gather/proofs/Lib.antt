mod CountLemmas
pub mod PartLemmas
mod RoundLemmas
mod Zips
