pub mod Inner
pub mod Bare
pub mod Calls
pub mod NoHost
pub mod Numbered
pub mod Slices
pub mod Underway
