pub mod Explained
pub mod Mended
pub mod Inside
