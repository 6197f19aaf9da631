pub mod Names
pub mod Words
pub mod Front
mod ValuesRead
mod Meant
mod Offers
mod Sites
mod Turning
mod TurnsCut
mod HeldLoops
mod Answering
