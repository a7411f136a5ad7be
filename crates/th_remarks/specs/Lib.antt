pub mod Heights
pub mod Marks
pub mod Outliers
pub mod Repeats
pub mod Alike
pub mod Remarks
pub mod Inside
