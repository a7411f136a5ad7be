mod WalkLemmas
mod PartLemmas
mod ListLemmas
mod CountLemmas
pub mod KindLemmas
mod FewLemmas
mod RereadLemmas
mod BookLemmas
