-- what private functions promise each other
pub mod Growing
pub mod Sifting
pub mod Passing
