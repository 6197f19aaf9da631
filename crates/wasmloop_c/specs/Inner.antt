-- No public clause reaches these: what a raw pointer owns, and which loop a step is of.
pub mod Answering
pub mod Owned
pub mod Held
