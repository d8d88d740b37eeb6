pub mod Preconditions
pub mod Leaves
