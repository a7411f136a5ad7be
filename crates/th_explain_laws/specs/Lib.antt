pub mod Ties
pub mod Parted
pub mod Printed
pub mod OneWrong
pub mod OnePoint
pub mod Word33
pub mod Corrected
pub mod Typed
