mod PassLemmas
pub mod SiftLemmas
mod RowLemmas
mod FindLemmas
mod GrowLemmas
mod HalfLemmas
