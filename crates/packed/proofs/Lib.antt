pub mod DecodeLaws
pub mod EightWords
pub mod BatchInvariant
pub mod SettingUp
pub mod Holding
pub mod AsOneRun
pub mod Keeping
