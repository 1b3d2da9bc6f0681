pub mod Bodies
pub mod Headers
pub mod Heads
pub mod Keys
pub mod Messages
pub mod Sending
