pub mod Calls
pub mod Answers
pub mod Running
pub mod Starting
pub mod Whole
