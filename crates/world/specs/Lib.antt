pub mod Guests
pub mod Histories
pub mod Laws
pub mod Making
pub mod Stopping
pub mod Undone
pub mod World
