pub mod Programs
pub mod Takes
