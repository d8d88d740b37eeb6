pub mod SetUp
pub mod Steps
pub mod Gates
pub mod Leaves
pub mod Sentences
pub mod Checks
