-- No public clause reaches these: the checker, its frames, and the table that it writes.
pub mod Brackets
pub mod Checking
pub mod Frames
pub mod Operands
pub mod Placing
pub mod Rejecting
pub mod Room
pub mod Steps
pub mod Writing
