pub mod Making
pub mod Drilling
pub mod Ending
pub mod Headline
pub mod Serving
pub mod Printing
