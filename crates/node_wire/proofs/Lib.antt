pub mod AnswerLemmas
mod HeadLemmas
pub mod HeardLaws
mod LengthLemmas
mod ReadingLemmas
