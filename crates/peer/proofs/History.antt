-- What is claimed of the plain receiver after every history.
pub mod Facts
pub mod Order
pub mod Bytes
pub mod Grants
pub mod Once
pub mod Count
pub mod OriginsHold
pub mod OriginReplies
