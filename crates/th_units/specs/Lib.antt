pub mod Limits
pub mod Units
pub mod Lengths
pub mod Metres
