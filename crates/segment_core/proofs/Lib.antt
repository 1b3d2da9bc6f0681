pub mod ByIndex
pub mod Chosen
pub mod Offers
pub mod RisingLemmas
