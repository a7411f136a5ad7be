pub mod Appended
pub mod Bodies
pub mod Stops
pub mod Ends
pub mod Forces
pub mod Located
pub mod Texts
