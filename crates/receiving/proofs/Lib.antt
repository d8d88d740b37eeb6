pub mod CtsWritten
pub mod Asking
