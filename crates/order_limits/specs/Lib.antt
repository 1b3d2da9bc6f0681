pub mod Hmac
pub mod Keys
pub mod Part
pub mod Order
pub mod Grant
pub mod Read
pub mod KeyedHash
