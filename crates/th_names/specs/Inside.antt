-- what private functions promise each other
pub mod Ends
pub mod Rooted
