pub mod LineLemmas
pub mod ShownLemmas
mod Fillings
mod PicturePieces
mod Pieces
mod Reasons
