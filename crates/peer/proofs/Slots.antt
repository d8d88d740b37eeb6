-- A peer's slots: what searches of them find, which peers can be, and the order of posts.
pub mod Slots
pub mod SlotTurns
pub mod Valid
pub mod Ages
pub mod CannotBeLaws
