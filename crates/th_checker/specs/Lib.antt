pub mod Verdicts
pub mod Shown
pub mod Accepted
pub mod Texts
pub mod Inside
