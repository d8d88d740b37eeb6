pub mod FlatLaws
pub mod Sizes
pub mod Elements
pub mod Reading
pub mod RoundTrips
