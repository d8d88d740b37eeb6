pub mod Slots
pub mod PeerSteps
pub mod Plain
pub mod History
pub mod Refusals
pub mod Sentences
