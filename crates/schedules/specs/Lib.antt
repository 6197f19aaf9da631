pub mod Accesses
pub mod Laws
pub mod Schedule
pub mod Served
pub mod Together
