pub mod AreaBits
pub mod Worlds
pub mod CheckLaws
pub mod OthersHold
pub mod WorldTurns
pub mod EngineChecked
pub mod PutBack
pub mod SentencesHold
