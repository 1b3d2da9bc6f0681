pub mod AskLemmas
pub mod EndingLemmas
pub mod RemakeLemmas
pub mod SpreadLemmas
pub mod SourceLemmas
