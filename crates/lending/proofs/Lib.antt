pub mod PartLaws
pub mod OpenSlots
pub mod StepLaws
