-- No public clause reaches these: how the reader goes through the bytes.
pub mod Assembly
pub mod Heads
pub mod Locals
pub mod Parts
pub mod Placing
pub mod Reading
pub mod Sections
