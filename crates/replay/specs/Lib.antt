pub mod Lines
pub mod Decoding
pub mod Replaying
pub mod Endings
