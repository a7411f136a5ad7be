-- what private functions promise each other
pub mod Brackets
pub mod Turns
pub mod Solved
