-- No public clause reaches these: how the code keeps a loop.
pub mod Codes
pub mod Stage
pub mod Preparing
pub mod Underway
pub mod Ended
