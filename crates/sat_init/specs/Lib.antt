pub mod NewStore
pub mod Init
