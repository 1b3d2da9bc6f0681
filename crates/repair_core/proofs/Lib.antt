pub mod Marks
pub mod Mending
pub mod Steps
pub mod Numbers
pub mod Rising
pub mod Whole
pub mod Progressing
pub mod Law
