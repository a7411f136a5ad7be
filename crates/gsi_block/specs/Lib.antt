pub mod Limits
pub mod Faults
pub mod Lines
pub mod Pieces
pub mod Spelled
pub mod Blocks
pub mod Writing
pub mod Inside
