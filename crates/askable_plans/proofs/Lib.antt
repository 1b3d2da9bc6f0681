pub mod Pieces
pub mod Audits
pub mod Repairs
pub mod Moves
