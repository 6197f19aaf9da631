-- No public clause reaches these: what a pointer owns.
pub mod Slots
