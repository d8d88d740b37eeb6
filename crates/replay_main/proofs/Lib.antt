pub mod ProgramLaws
pub mod Takes
