pub mod Rated
pub mod Mended
pub mod Beside
