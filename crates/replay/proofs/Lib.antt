pub mod Endings
pub mod RoomLaws
pub mod DecodeLaws
pub mod LineRoom
pub mod ReplayInvariant
pub mod WholeLaws
