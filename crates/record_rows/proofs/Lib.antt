pub mod Joins
pub mod KindLemmas
pub mod SchemeLemmas
pub mod VersionLemmas
