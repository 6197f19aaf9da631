pub mod AtDesk
pub mod Counts
pub mod Slots
pub mod Standing
pub mod Steps
