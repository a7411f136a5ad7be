pub mod Lists
pub mod Heights
pub mod Lines
pub mod Reports
pub mod Gsi
