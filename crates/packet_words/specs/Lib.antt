pub mod Values
pub mod Writing
pub mod Says
pub mod Order
pub mod ReaderSentences
pub mod RoundTrip
