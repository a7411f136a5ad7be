pub mod Markup
mod Struck
