-- The tests that engine and plain receiver share say what 01 says.
pub mod SentencesHold
pub mod OffsetsHold
pub mod FieldsHold
pub mod BytesHold
pub mod PacketsRead
