pub mod PointLemmas
pub mod PointOrder
pub mod PlaceLemmas
pub mod NameLineLemmas
