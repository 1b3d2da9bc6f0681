mod BodyLemmas
pub mod FrontLemmas
mod HeadLemmas
pub mod HeaderLemmas
