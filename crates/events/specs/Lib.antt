pub mod Bare
pub mod Traps
pub mod Phases
