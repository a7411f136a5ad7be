-- what private functions promise each other
pub mod Sums
pub mod Paid
