pub mod CallLemmas
pub mod Rising
