mod TiltedLemmas
mod GapLemmas
mod LeftLemmas
pub mod JoinLemmas
pub mod NamingLemmas
pub mod LocatedLemmas
pub mod RowLemmas
mod ReadingLemmas
pub mod GrowthLemmas
pub mod PointLemmas
mod MendLemmas
mod BoundLemmas
mod FitLemmas
mod MeetLemmas
pub mod SightMeets
pub mod RowMeets
mod Examples
mod RootedLemmas
mod RiseLemmas
