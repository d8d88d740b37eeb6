-- Engine and plain receiver answer alike and go on agreeing.
pub mod Roles
pub mod EntrySearch
pub mod CoverageLaws
pub mod Agreement
pub mod Entered
pub mod Steps
pub mod Replies
