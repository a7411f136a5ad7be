pub mod Residuals
pub mod Fits
pub mod Blunders
pub mod Opposites
