pub mod Fitting
pub mod Narrow
pub mod Rows
pub mod OrderHolds
pub mod WordsTold
pub mod BackAndForth
