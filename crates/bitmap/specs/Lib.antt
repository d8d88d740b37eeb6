pub mod Map
pub mod Mask
pub mod Offsets
pub mod Ranges
pub mod Sentences
pub mod WholeWords
