pub mod Inner
pub mod Lent
pub mod Machines
pub mod Slots
pub mod Slices
