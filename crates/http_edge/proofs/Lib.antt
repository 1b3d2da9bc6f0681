mod FieldLemmas
mod FloatLemmas
mod HeadLaws
mod LengthLemmas
mod PathLemmas
mod ReadingLemmas
mod RequestLemmas
