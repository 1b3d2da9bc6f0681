pub mod Offers
pub mod Pieces
