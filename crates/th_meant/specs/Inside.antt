-- what private functions promise each other
pub mod Slips
pub mod Nearest
pub mod Named
