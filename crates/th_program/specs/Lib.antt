pub mod Failing
pub mod Noted
pub mod Done
pub mod Headline
pub mod Accepted
pub mod Inside
