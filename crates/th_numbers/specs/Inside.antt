-- what private functions promise each other
pub mod Parts
pub mod Kinds
