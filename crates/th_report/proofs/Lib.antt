pub mod ListLemmas
pub mod ResidualLemmas
pub mod NameLemmas
pub mod WordLemmas
pub mod LineLemmas
pub mod ReportLines
pub mod GsiLines
pub mod HeightColumns
