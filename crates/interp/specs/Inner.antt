-- No public clause reaches these: the slot machine, and how it stands for contexts of a run.
pub mod Slots
pub mod ArgumentsHeld
pub mod Calling
