pub mod Records
pub mod Texts
pub mod Inside
