pub mod Choose
pub mod Parts
