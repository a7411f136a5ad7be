pub mod Limits
pub mod Remedies
pub mod Corrected
pub mod Groups
pub mod Moved
pub mod Others
pub mod Answers
pub mod Inside
