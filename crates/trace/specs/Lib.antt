pub mod Numbers
pub mod Entries
pub mod ShortestForm
pub mod NumberGroups
pub mod Recorded
pub mod ExactlyRecorded
