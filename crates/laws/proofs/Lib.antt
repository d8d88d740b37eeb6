pub mod Choosing
pub mod Storing
pub mod Reading
pub mod Listing
pub mod Comparing
