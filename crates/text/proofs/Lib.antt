pub mod DecimalLaws
pub mod DecimalNumbers
pub mod LineLaws
