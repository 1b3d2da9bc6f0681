pub mod RepeatLemmas
pub mod HistoryLemmas
pub mod OrderLemmas
