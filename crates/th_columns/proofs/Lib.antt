pub mod ColumnLemmas
pub mod DigitLemmas
pub mod RowLemmas
pub mod FileNameLemmas
