pub mod Rows
pub mod Explanations
pub mod Inside
