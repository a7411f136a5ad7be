-- what private functions promise one another
pub mod Opening
pub mod Placing
