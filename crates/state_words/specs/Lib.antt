pub mod Flat
pub mod Saving
pub mod Loading
pub mod RoundTrip
