-- what private functions promise each other
pub mod Raised
pub mod Readjusted
pub mod Judging
pub mod Moving
