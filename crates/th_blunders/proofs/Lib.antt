pub mod Numbered
pub mod LatestOnes
pub mod PointPlaces
pub mod CostLemmas
pub mod HeightLemmas
