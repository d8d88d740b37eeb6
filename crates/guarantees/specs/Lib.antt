pub mod Runs
pub mod Receiving
pub mod Refusals
pub mod Delivery
pub mod Isolation
pub mod Replies
pub mod Outputs
