pub mod RecordLemmas
pub mod FieldLemmas
pub mod RowLemmas
pub mod RoundTripLemmas
